-- Agreement: the books agree. Accounts: one account at a time. Drains: lists with drains among the calls.
-- Rests on machine, drain, books, broadcast and same_books.
pub mod Agreement
pub mod Accounts
pub mod Drains
