mod Letters
mod Structured
