pub mod SeveralTexts
