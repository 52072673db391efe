pub mod ColumnRules
