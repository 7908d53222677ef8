mod Word
