pub mod Demand3
pub mod Claims
pub mod LogLaws
pub mod OpenedLaws
pub mod StepLaws
pub mod TraceLaws
pub mod UsageLaws
pub mod ClientLaws
