use mathlib.Core.Path.{sym, ◌∙◌}
use native.Mathlib.Omega.{arith}
use Rattle.std.proofs.Common.{rules}
use Rattle.aut_live_words.proofs.Words.{listed_inside}
use Rattle.aut_why_words.proofs.Found.{find_listed, got_target, got_label}
use Rattle.aut_why_hop.proofs.Hops as hops
use Rattle.aut_why_hop.proofs.hop.Goals as goal
use Rattle.aut_why_hop.proofs.hop.Goals.{in-Some+then-is_lower, in-Some+else-is_lower, in_default}

pub stored_list-list-requires : goal.stored_list-list-requires
stored_list-list-requires c = find_listed c.requires.list

pub loop-i-init : goal.loop-i-init
loop-i-init c = record { keeps = search rules; hops = hops.hop_begin _ _ _ _ _ _ _ c.requires.ready }

pub get-t-requires : goal.get-t-requires
get-t-requires c = rw c.loop-i.invariant.keeps.transitions (omega (arith, listed_inside c.requires.list c.stored_list-list.ensures, c.loop-i-test.true))

pub led-requires : goal.led-requires
led-requires c =
    let K = c.loop-i.invariant.keeps in
    rw (got_target c.get-t.ensures, got_label c.get-t.ensures, K.sp, K.spp, K.states, K.transitions)
    (hops.hop_asks c.requires c.stored_list-list.ensures c.loop-i.invariant.hops.ready c.loop-i-test.true)

pub loop-i-preserved : goal.loop-i-preserved
loop-i-preserved c =
    let K = c.loop-i.invariant.keeps in
    let v = c.loop-i.invariant.hops in
    let l = c.loop-i-test.true in
    let len = c.led.ensures.keeps.scratch.length in
    let t = got_target c.get-t.ensures in
    let a = got_label c.get-t.ensures in
    record {
      keeps = search rules;
      hops = elim c.match-led.branch [
        | in-Some+then-is_lower w ↦ rw (w.best-is, t, K.transitions) (hops.hop_lower _ _ _ _ _ _ _ v l len (rw (t, a, K.sp, K.spp, K.states, K.transitions) at w.in-Some.ensures.gives) (sym w.is_lower.ensures ∙ w.if-is_lower.true))
        | in-Some+else-is_lower w ↦ rw w.best-is (hops.hop_kept _ _ _ _ _ _ _ v l len (rw (t, a, K.sp, K.spp, K.states, K.transitions) at w.in-Some.ensures.gives) (sym w.is_lower.ensures ∙ w.if-is_lower.false))
        | in_default w ↦ rw w.best-is (hops.hop_past _ _ _ _ _ _ _ v l len (rw (t, a, K.sp, K.spp, K.states, K.transitions) at w.in_default.ensures.gives))
      ];
    }

pub returns-clause-gives : goal.returns-clause-gives
returns-clause-gives c =
    hops.hop_ends c.requires c.stored_list-list.ensures (hops.hop_found _ _ _ _ _ _ _ c.loop-i.invariant.hops c.loop-i-test.false) c.loop-i.invariant.hops.left
