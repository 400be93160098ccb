mod Suits
