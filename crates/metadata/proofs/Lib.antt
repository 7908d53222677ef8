mod Room
mod Natural
mod NamedRows
mod Keys
mod GivesUp
mod QuickPass
mod Checked
mod Apart
