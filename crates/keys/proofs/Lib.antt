pub mod Every
pub mod Search
pub mod Tables
pub mod TagsAndGroups
