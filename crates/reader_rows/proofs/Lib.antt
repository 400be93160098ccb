mod FirstWords
mod Listed
mod Sites
