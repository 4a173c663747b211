use Rattle.refusal.proofs.Passed.{passed}
use Rattle.image_read.proofs.States as states
use Rattle.image_read.proofs.read_automaton.Goals as goal

pub read_members-requires : goal.read_members-requires
read_members-requires c = states.members_ready c.args.opened.image c.args.opened.head c.args.aut.now c.args.opened.fitting c.requires

pub read_states-requires : goal.read_states-requires
read_states-requires c = states.states_ready c.args.opened.image c.args.opened.head c.args.aut.now c.args.opened.fitting c.requires c.setting_of-setting.result c.setting_of-setting.ensures

pub returns-in_err-read_members-clause-gives : goal.returns-in_err-read_members-clause-gives
returns-in_err-read_members-clause-gives c =
    rw (passed c.from_residual.ensures) (states.no_members c.args.opened.image c.args.opened.head c.args.aut.now c.args.opened.fitting c.requires c.in_err-read_members.ensures)

pub returns-clause-gives : goal.returns-clause-gives
returns-clause-gives c =
    states.automaton_read c.args.opened.image c.args.opened.head c.args.aut.now c.args.opened.fitting c.requires c.setting_of-setting.result c.setting_of-setting.ensures c.in_ok-read_members.ensures c.read_states.ensures.gives
