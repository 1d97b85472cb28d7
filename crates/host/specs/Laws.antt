pub mod HouseCheck
