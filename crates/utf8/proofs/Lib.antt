mod Ascii
mod Texts
