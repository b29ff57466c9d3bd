-- Laws about requests, for the floors above.
pub mod Laws
