pub mod HeadsBack
pub mod There
pub mod EidsBack
mod RowsThere
pub mod CheckBack
mod PrimaryBack
mod BlocksBack
mod BundleBack
mod Shortest
