pub mod FolderPages
pub mod GetMethod
pub mod Private
pub mod PropertyAnswers
pub mod PropfindMethod
pub mod RefusalAnswers
pub mod SentDocuments
