-- Accounts: one account, in records and in books.
-- Rests on broadcast and posting.
pub mod Accounts
