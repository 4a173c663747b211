-- Computed picks for N = 2, from the sets of four states, and which of two strings comes first.
use Rattle.std.specs.Prelude.{if◌then◌else◌}
use mathlib.Core.Path.{refl}
use mathlib.Core.Bool.{true, false, ◌&&◌, ◌||◌}
use mathlib.Core.List.{List, [], ◌∷◌}
use mathlib.Core.Option.{none, some}
use lib.Dec.{eqb}
use Prim.Native.Nat.{ℕ, zero, suc}
use native.Mathlib.Omega.{arith}
use Rattle.common.specs.Packets.{Packet, end, bit, packets, any, Set, Relation, inhabited, all}
use Rattle.common.specs.Relations.{same, noneʳ, allʳ, ◌∪ʳ◌, starts, preimage}
use Rattle.common.specs.Rows.{Row, row, Hold}
use Rattle.netkat.specs.Strings.{str}
use Rattle.netkat.specs.Lists.{State, Transition, to}
use Rattle.netkat_paths.specs.Order.{value, least, here, there, Before, fewer, lower}
use Rattle.netkat_paths.specs.Pick.{hop_to, hop, way, pick}

abbrev p00 : Packet 2
p00 = bit false (bit false end)

abbrev p01 : Packet 2
p01 = bit false (bit true end)

abbrev p10 : Packet 2
p10 = bit true (bit false end)

abbrev p11 : Packet 2
p11 = bit true (bit true end)

-- the one pair
abbrev pair : Packet 2 → Packet 2 → Relation 2
pair a z p q = same p a && same q z

-- State 0 leads from 11 to state 1, and from 01 to state 2; state 3 leads from 00 to state 0, and to state 2.
abbrev epsilon : State → Relation 2
epsilon s = if eqb s 1 then allʳ else if eqb s 2 then (pair p11 p00 ∪ʳ pair p10 p11 ∪ʳ pair p10 p01) else noneʳ

abbrev delta : State → List (Transition State 2)
delta s =
    if eqb s 0 then (to 1 (pair p11 p00) ∷ to 2 (pair p01 p11 ∪ʳ pair p01 p10) ∷ []) else
    if eqb s 3 then (to 0 (pair p00 p01) ∷ to 2 (pair p00 p10) ∷ []) else []

-- the starts of their strings with at most k hops
abbrev sets : ℕ → State → Set 2
sets zero s = starts (epsilon s)
sets (suc k) s = λ p. starts (epsilon s) p || any (λ t. preimage t.label (sets k t.target) p) (delta s)

abbrev pub rows : List Row
rows =
    -- field 0 is the highest digit
    row (value p10) 2
    ∷ row (least 2 (λ p. same p p10 || same p p01)) (some p01)
    ∷ row (least 2 (λ p. false)) none
    -- the later target has the lower packet
    ∷ row (hop (to 1 (pair p00 p10) ∷ to 2 (pair p00 p01) ∷ []) (λ s. all) p00 none) (some (hop_to 2 p01))
    -- the least start is not that of the first transition; of its two hops the lower is taken, and of its ends
    ∷ row (pick epsilon delta sets 1 0) (some (str p01 (p10 ∷ []) p01))
    -- one hop: 01 leads nowhere without another
    ∷ row (pick epsilon delta sets 1 3) (some (str p00 (p10 ∷ []) p01))
    -- two: 01, from which there is one more
    ∷ row (pick epsilon delta sets 2 3) (some (str p00 (p01 ∷ p10 ∷ []) p01))
    -- no string without hops
    ∷ row (pick epsilon delta sets 0 3) none
    ∷ []

pub hold : Hold rows
unfolding value least hop way pick same starts preimage inhabited packets
hold = (refl, (refl, (refl, (refl, (refl, (refl, (refl, (refl, tt))))))))

-- fewer hops first
fewest : Before (str p11 [] p11) (str p00 (p00 ∷ []) p00)
fewest = fewer (omega arith)

-- then the start
then_start : Before (str p00 (p11 ∷ []) p11) (str p01 (p00 ∷ []) p00)
unfolding value
then_start = lower refl (here {p = p00} {q = p01} (omega arith))

-- then the hops in order
then_hops : Before (str p00 (p01 ∷ p11 ∷ []) p11) (str p00 (p10 ∷ p00 ∷ []) p00)
unfolding value
then_hops = lower refl (there (here {p = p01} {q = p10} (omega arith)))

-- then the end
then_end : Before (str p00 (p01 ∷ []) p10) (str p00 (p01 ∷ []) p11)
unfolding value
then_end = lower refl (there (there (here {p = p10} {q = p11} (omega arith))))
