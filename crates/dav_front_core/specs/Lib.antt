pub mod FrontRuns
