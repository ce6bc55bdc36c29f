pub mod PaidRun
