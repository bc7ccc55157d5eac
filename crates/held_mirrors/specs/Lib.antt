pub mod HeldMirrors
