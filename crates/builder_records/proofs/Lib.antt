pub mod RecordPut
pub mod RecordsPut
