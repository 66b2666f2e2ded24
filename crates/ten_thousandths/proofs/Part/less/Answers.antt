-- `less` meets its contract: no power below 2^50 shifts a digit of 10,000 out of a u64, and a difference has wrapped where it is the larger.
-- Assumes nothing.
use Rattle.std.proofs.Common.{◌≡◌, ℕ, ◌+◌, ◌-◌, ◌*◌, ◌%◌, ◌^◌, ◌<◌, ◌≤◌, arith, pow_pos, le-ltb, lt-ltb}
use lib.Pow.{pow-lt}
use Rattle.ten_thousandths.specs.Parts.{lessened}
use Rattle.ten_thousandths.proofs.Part.less.Goals as goal

-- a power from 2^0 to 2^49
power : (k : ℕ) → k < 50 → (0 < 2 ^ k) × (2 ^ k < 2 ^ 50)
power k h = (pow_pos k, pow-lt h)

pub returns-then-self-left : goal.returns-then-self-left
unfolding lessened
returns-then-self-left c =
    let part = c.args.self in
    let h : part.rest < 10000 * 2 ^ c.args.k = omega (arith, power c.args.k c.requires.0, c.if-self-left.true) in
    rw (lt-ltb part.rest (10000 * 2 ^ c.args.k) h)

pub returns : goal.returns
unfolding lessened
returns c =
    let k = c.args.k in
    let part = c.args.self in
    let there : 10000 * 2 ^ k ≤ part.rest = omega (arith, power k c.requires.0, c.if-self-left.false) in
    let rest : (part.rest + (18446744073709551616 - 10000 * 2 ^ k % 18446744073709551616)) % 18446744073709551616 ≡ part.rest - 10000 * 2 ^ k = omega (arith, power k c.requires.0, there) in
    let taken : part.taken + 1 * 2 ^ k % 18446744073709551616 ≡ part.taken + 2 ^ k = omega (arith, power k c.requires.0) in
    rw (le-ltb part.rest (10000 * 2 ^ k) there) (λ i. record { rest = rest i; taken = taken i })
