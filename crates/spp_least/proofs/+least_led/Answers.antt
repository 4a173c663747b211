use mathlib.Core.Path.{sym, ◌∙◌, ap}
use Rattle.std.specs.Prelude.{is_some}
use Rattle.spp_least.proofs.First.{is_one}
use Prim.Native.Nat.{ℕ}
use Rattle.sp.specs.Clauses as Sets
use Rattle.spp.specs.Clauses.{view_of}
use Rattle.spp_steps.specs.ImageModel.{stores}
use Rattle.spp_least.specs.Clauses.{LedAnswer}
use Rattle.spp_least.proofs.LedTurn as led
use Rattle.spp_least.proofs.+least_led.Goals.{Joined-least_led, then-is_zero-via-then-is_zero, then-is_zero-via-else-is_zero+then-is_zero-2, in-None, in_default-least_led}
use Rattle.spp_least.proofs.+least_led.Goals as goal

pub returns-then-is_zero : goal.returns-then-is_zero
returns-then-is_zero t c = elim c.then-is_zero.branch [
  | then-is_zero-via-then-is_zero w ↦ led.empty c.requires w.if-is_zero.ensures
  | then-is_zero-via-else-is_zero+then-is_zero-2 w ↦ led.nothing c.requires (w.if-is_zero-2.ensures c.args.spp.fields)
]

pub returns-then-depth-eq0 : goal.returns-then-depth-eq0
returns-then-depth-eq0 t c = led.full c.requires c.if-is_zero.ensures (c.if-is_zero-2.ensures c.args.spp.fields) c.if-depth-eq0.true

pub returns-in-Some : goal.returns-in-Some
returns-in-Some t c = led.hit c.requires c.in-Some.ensures c.from_word.ensures

pub get-p-requires : goal.get-p-requires
get-p-requires t c = led.inner c.requires c.if-depth-eq0.false

pub row-q-requires : goal.row-q-requires
row-q-requires t c = led.row_ready c.requires c.if-depth-eq0.false

pub least_led-requires : goal.least_led-requires
least_led-requires t c = led.asked_0 c.requires c.if-depth-eq0.false c.get-p.ensures c.row-q.ensures c.decreases

pub least_led-high-requires : goal.least_led-high-requires
least_led-high-requires t c = led.asked_1 c.requires c.if-depth-eq0.false c.get-p.ensures c.row-q.ensures c.least_led.ensures c.decreases

pub raise-led-requires : goal.raise-led-requires
raise-led-requires t c = led.small c.requires c.if-depth-eq0.false c.get-p.ensures c.row-q.ensures c.least_led.ensures c.least_led-high.ensures

-- what one call or two come to
came : {t : ℕ} (c : Joined-least_led t) → LedAnswer c.args.depth (stores (Sets.view_of c.args.sets) (view_of c.args.spp)) c.args.cache.now c.args.packet c.args.s.0 c.args.r.0 c.match-least_led.led c.match-least_led.cache
came c = elim c.match-least_led.branch [
  | in-None w ↦ led.next c.requires c.if-depth-eq0.false c.get-p.ensures c.row-q.ensures c.least_led.ensures w.least_led-high.ensures (ap is_some w.in-None.is) (w.led-is ∙ w.raise-led.ensures) w.cache-is
  | in_default-least_led w ↦ led.found c.requires c.if-depth-eq0.false c.get-p.ensures c.row-q.ensures c.least_led.ensures (sym (is_one _ w.in_default-least_led.not-None)) w.led-is w.cache-is
]

pub to_word-requires : goal.to_word-requires
to_word-requires t c = led.short c.requires (came (goal.at.to_word-requires t c).Joined-least_led)

pub returns : goal.returns
returns t c = led.noted c.requires (came (goal.at.returns t c).Joined-least_led) c.to_word.ensures c.note.ensures
