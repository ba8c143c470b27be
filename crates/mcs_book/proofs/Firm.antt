-- Firm logs: what keeps them firm, piece by piece and row by row.
pub mod Laws
pub mod Cancel
pub mod Ends
pub mod Taking
pub mod Lookup
pub mod Acts
pub mod Messages
pub mod Rows
pub mod Table
pub mod Boots
