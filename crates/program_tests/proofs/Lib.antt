mod ShortTexts
