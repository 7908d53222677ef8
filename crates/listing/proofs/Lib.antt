mod RowLines
pub mod Records
pub mod Listed
pub mod Cases
