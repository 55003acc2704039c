pub mod AnswerLaws
pub mod LogAnswerLaws
