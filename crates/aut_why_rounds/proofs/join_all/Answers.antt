use mathlib.Core.Path.{refl}
use native.Mathlib.Omega.{arith}
use Rattle.std.proofs.Common.{rules}
use Rattle.refusal.proofs.Passed.{passed}
use Rattle.aut_query_calls.specs.Working.{with_members}
use Rattle.aut_query_calls.proofs.Works.{keeps_beside}
use Rattle.aut_why_words.proofs.Found.{got_target, got_label}
use Rattle.aut_why_rounds.proofs.Turns as turns
use Rattle.aut_why_rounds.proofs.join_all.Goals as goal

pub stored_list-list-requires : goal.stored_list-list-requires
stored_list-list-requires c = turns.turn_find c.requires.turn.turning

pub loop-i-init : goal.loop-i-init
loop-i-init c = record { keeps = search rules; joined = λ mem p n before T U. turns.join_begin c.args.config (with_members mem c.args.aut.now) T c.args.u.0 U _ c.stored_list-list.ensures }

pub get-t-requires : goal.get-t-requires
get-t-requires c = rw c.loop-i.invariant.keeps.transitions (omega (arith, turns.turn_inside c.requires.turn.turning c.stored_list-list.ensures, c.loop-i-test.true))

pub join_one-requires : goal.join_one-requires
join_one-requires c =
    let Q = c.requires.turn in
    let I = c.loop-i.invariant in
    rw (got_target c.get-t.ensures, got_label c.get-t.ensures) (record {
      members = Q.members;
      joining = turns.join_asks c.args.config (with_members Q.members c.args.aut.now) Q.turning c.args.u.0 c.requires.at _ c.stored_list-list.ensures (keeps_beside Q.members I.keeps)
          (I.joined Q.members Q.entries Q.count Q.before Q.turning c.requires.at) c.loop-i-test.true;
    })

pub returns-in_err-u-clause-gives : goal.returns-in_err-u-clause-gives
returns-in_err-u-clause-gives c = record {
  gives = λ mem p n before T U.
      let I = c.loop-i.invariant in
      let x = with_members mem c.args.aut.now in
      let A = keeps_beside mem I.keeps in
      let G = rw (got_target c.get-t.ensures, got_label c.get-t.ensures) at c.in_err-u.ensures.gives in
      rw (passed c.from_residual.ensures)
      (turns.join_stuck c.args.config x T c.args.u.0 U _ c.stored_list-list.ensures A (I.joined mem p n before T U) c.loop-i-test.true
      (G.gives mem (turns.join_asks c.args.config x T c.args.u.0 U _ c.stored_list-list.ensures A (I.joined mem p n before T U) c.loop-i-test.true)));
}

pub loop-i-preserved : goal.loop-i-preserved
loop-i-preserved c = record {
  keeps = search rules;
  joined = λ mem p n before T U.
      let I = c.loop-i.invariant in
      let x = with_members mem c.args.aut.now in
      let A = keeps_beside mem I.keeps in
      let G = rw (got_target c.get-t.ensures, got_label c.get-t.ensures) at c.in_ok-u.ensures.gives in
      turns.join_again c.args.config x T c.args.u.0 U _ c.stored_list-list.ensures A (I.joined mem p n before T U) c.loop-i-test.true (keeps_beside mem c.join_one.ensures.keeps)
      (G.gives mem (turns.join_asks c.args.config x T c.args.u.0 U _ c.stored_list-list.ensures A (I.joined mem p n before T U) c.loop-i-test.true));
}

pub returns-clause-gives : goal.returns-clause-gives
returns-clause-gives c = record {
  gives = λ mem p n before T U.
      let I = c.loop-i.invariant in
      turns.join_end c.args.config (with_members mem c.args.aut.now) T c.args.u.0 U _ c.stored_list-list.ensures (keeps_beside mem I.keeps) (I.joined mem p n before T U) c.loop-i-test.false refl;
}
