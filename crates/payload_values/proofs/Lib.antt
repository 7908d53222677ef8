mod EvenRows
mod Plans
