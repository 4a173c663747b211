use Rattle.aut_delta_lists.proofs.Alone as alone
use Rattle.aut_delta_lists.proofs.next_list.Goals as goal

pub returns-clause-gives : goal.returns-clause-gives
returns-clause-gives c = alone.next_done c.top-label.ensures c.st_singleton.ensures.gives
