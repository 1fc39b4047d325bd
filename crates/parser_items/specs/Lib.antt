pub mod Count
pub mod Survey
pub mod Grammar
pub mod Draft
