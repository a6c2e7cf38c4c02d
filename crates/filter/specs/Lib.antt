-- The definitions of the two public jobs: Jobs has the jobs, Steps what the private steps ensure.
-- Assumes nothing.
pub mod Jobs
pub mod Steps
