pub mod SetAnswers
pub mod LogAnswers
pub mod RangesAnswers
pub mod RangesAnswerLaws
pub mod PlanAnswers
