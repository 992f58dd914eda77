pub mod Cells
pub mod Pages
pub mod Numbers
pub mod Structs
pub mod Files
pub mod Writable
pub mod Again
pub mod FileAgain
mod OfKind
mod Said
mod ElementsSay
mod LayoutsSay
mod GroupsSay
mod OpeningSays
mod ColumnNames
mod HeadersSay
mod InTurn
mod ChunkTurns
mod Texts
mod ValueTurns
mod ValuesSay
mod PagesSay
mod ShortPages
mod ChunkSays
mod CellsSay
mod RowsSay
mod RowGroupsSay
mod FirstColumn
mod WholeSays
mod FaultsSay
