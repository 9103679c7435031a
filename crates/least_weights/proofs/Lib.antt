pub mod FewVertices
mod NearestLed
