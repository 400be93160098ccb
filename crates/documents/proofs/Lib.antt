mod Arguments
mod Reading
mod Limited
mod TextLinesOnly
mod TextDocuments
mod WorkedLimits
