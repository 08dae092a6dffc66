-- "Admitted stores", in words: each test says yes exactly where the sentences hold.
pub mod Repairable
pub mod Resting
-- "Fit transaction", and the fit schedule.
pub mod FitSchedule
pub mod FitTransaction
