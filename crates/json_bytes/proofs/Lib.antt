pub mod JsonText
