-- Services has what is the same of a node whose service is put back.
pub mod Services
