pub mod Contexts
pub mod Each
pub mod LayoutProps
pub mod Layouts
