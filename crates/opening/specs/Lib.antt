-- The query's blocks numbered as the search holds them (Table), which of them an interval meets (Meet), the lists' places when an interval is entered (Enter), one interval opened (Turn).
pub mod Table
pub mod Meet
pub mod Enter
pub mod Turn
