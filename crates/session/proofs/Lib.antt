-- Laws about sessions, for the floors above.
pub mod Tests
pub mod Laws
