-- What the records say of a pair, as numbers.
-- Rests on audit_rule's Audit.
use Rattle.audit_rule.specs.Audit.{Finding, sound, crosses, lacks, parts}
use Rattle.audit_pair.specs.declared.Found.{Found}

-- the answer's numbers for a finding
unfoldable pub found : Finding → Found
found sound = record { code = 0; first = 0; second = 0; here = 0; there = 0 }
found (crosses x y p q) = record { code = 10; first = x; second = y; here = p; there = q }
found (lacks x y p q) = record { code = 11; first = x; second = y; here = p; there = q }
found (parts x y p q) = record { code = 12; first = x; second = y; here = p; there = q }
