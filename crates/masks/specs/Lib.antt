-- SiteMasks: masks of sites.
-- Rests on sets.
pub mod SiteMasks
