pub mod RangeContract
