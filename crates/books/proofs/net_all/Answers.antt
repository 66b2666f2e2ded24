-- `books::net_all` meets its contract: after so many accounts these are netted.
-- Assumes nothing.
use mathlib.Core.Path.{◌≡◌, ap, ◌∙◌}
use Prim.Native.Nat.{ℕ, ◌<◌}
use native.Mathlib.Omega.{arith}
use lib.ListN.{length, get_or}
use borrow.Author.Rules.{rules}
use Rattle.posting.specs.Kinds.{accounts}
use Rattle.books.specs.declared.Sheet.{Sheet}
use Rattle.books.specs.Effect.{on_net}
use Rattle.books.specs.Books.{figures_on, sheet_of, zeros}
use Rattle.books.proofs.Sheets.{sheet_is, netted, netted_none, netted_at, netted_next, netted_all}
use Rattle.books.proofs.net_all.Goals as goal
use Rattle.books.proofs.net_all.Goals.{At-loop-s}

-- this account is as it was before the loop
as_it_was : (c : At-loop-s) → c.loop-s.s-index < accounts → get_or c.loop-s.s-items c.loop-s.s-index zeros ≡ figures_on c.args.sheet c.loop-s.s-index
as_it_was c here = ap (λ (t : Sheet). figures_on t c.loop-s.s-index) c.loop-s.invariant ∙ netted_at c.loop-s.s-index (figures_on c.args.sheet) here

pub loop-s-init : goal.loop-s-init
loop-s-init c =
    let long : length c.args.sheet.accounts ≡ accounts = search rules in
    sheet_is c.args.sheet long ∙ netted_none (figures_on c.args.sheet)

pub net-requires : goal.net-requires
net-requires c =
    let here : c.loop-s.s-index < accounts = omega arith in
    rw (as_it_was (goal.at.net-requires c).At-loop-s here) (c.requires c.loop-s.s-index here)

pub loop-s-preserved : goal.loop-s-preserved
loop-s-preserved c =
    let at = c.loop-s.s-index in
    let s = figures_on c.args.sheet in
    let here : at < accounts = omega arith in
    let e : c.net.result ≡ on_net (s at) = c.net.ensures ∙ ap on_net (as_it_was (goal.at.loop-s-preserved c).At-loop-s here) in
    netted_next at s here (record { accounts = c.loop-s.s-items }) c.net.result c.loop-s.invariant e

pub returns : goal.returns
returns c =
    let s = figures_on c.args.sheet in
    let e : c.loop-s.s-index ≡ accounts = omega arith in
    c.loop-s.invariant ∙ ap (λ (n : ℕ). sheet_of (netted n s)) e ∙ netted_all s
