pub mod Classes
pub mod Loop
pub mod Tests
pub mod Value
pub mod KeyRead
pub mod EntryLoop
