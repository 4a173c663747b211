use Rattle.refusal.proofs.Passed.{passed}
use Rattle.image_read.proofs.States as states
use Rattle.image_read.proofs.read_records.Goals as goal

pub overflow_sub-start : goal.overflow_sub-start
overflow_sub-start c = states.lines_inside c.args.opened.image.now c.args.opened.head c.args.place.now c.args.opened.fitting c.requires c.total.ensures

pub read_lines-requires : goal.read_lines-requires
read_lines-requires c = states.lines_ready c.args.opened.image.now c.args.opened.head c.args.place.now c.args.opened.fitting c.requires c.total.ensures

pub returns-then-not-ended-clause-gives : goal.returns-then-not-ended-clause-gives
returns-then-not-ended-clause-gives c =
    states.no_end c.args.opened.image.now c.args.opened.head c.args.place.now c.args.opened.fitting c.requires c.total.ensures c.read_automaton.new.aut c.in_ok-read_automaton.ensures.gives c.read_lines.new.lines c.in_ok-read_lines.ensures.gives c.ended.ensures c.if-not-ended.true _

pub returns-in_err-read_automaton-clause-gives : goal.returns-in_err-read_automaton-clause-gives
returns-in_err-read_automaton-clause-gives c =
    rw (passed c.from_residual.ensures) (states.no_states c.args.opened.image.now c.args.opened.head c.args.place.now c.args.opened.fitting c.requires c.in_err-read_automaton.ensures.gives _)

pub returns-in_err-read_lines-clause-gives : goal.returns-in_err-read_lines-clause-gives
returns-in_err-read_lines-clause-gives c =
    rw (passed c.from_residual-in_err-read_lines.ensures) (states.lines_stopped c.args.opened.image.now c.args.opened.head c.args.place.now c.args.opened.fitting c.requires c.total.ensures c.read_automaton.new.aut c.in_ok-read_automaton.ensures.gives c.in_err-read_lines.ensures.gives _)

pub returns-clause-gives : goal.returns-clause-gives
returns-clause-gives c =
    states.records_given c.args.opened.image.now c.args.opened.head c.args.place.now c.args.opened.fitting c.requires c.total.ensures c.read_automaton.new.aut c.in_ok-read_automaton.ensures.gives c.read_lines.new.lines c.in_ok-read_lines.ensures.gives c.ended.ensures c.if-not-ended.false
