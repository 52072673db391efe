pub mod Has
pub mod Reservation
pub mod Rising
