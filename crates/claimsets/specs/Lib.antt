pub mod Family
