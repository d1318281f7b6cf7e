-- What is proved, in one place: every claim holds of document 01's core, and every fraud breaks those that are named against it. Assumes nothing.
use Rattle.demands.specs.Behaviour.{the_core}
use Rattle.demands.specs.Claims.{Claims, FraudsFail}
use Rattle.demands.proofs.Rules.{demand1}
use Rattle.demands.proofs.DemandTwo.{store_case, nak_case, not_good_case}
use Rattle.demands.proofs.Done.{done_by_history}
use Rattle.demands.proofs.Order.{mark_case}
use Rattle.demands.proofs.DemandThree.{demand3}
use Rattle.demands.proofs.InWords.{in_words}
use Rattle.demands.proofs.Refuted.{silent_stores_not, silent_moves_not, refusing_stores_not, refusing_moves_not, acking_naks_not, acking_stores_not, first_only_stores_not, inventing_counts_not, inventing_stores_not, broken_silent_not, broken_stores_not, any_free_naks_not, any_free_order_lost}

pub proved : Claims the_core
proved =
    record {
      demand1 = demand1;
      stores = store_case;
      turns_away = nak_case;
      silent_where_broken = not_good_case;
      by_the_mark = mark_case;
      done_by_history = done_by_history;
      demand3 = demand3;
      demand3_in_words = in_words the_core demand3;
    }

pub frauds_fail : FraudsFail
frauds_fail =
    record {
      silent_stores_not = silent_stores_not;
      silent_moves_not = silent_moves_not;
      refusing_stores_not = refusing_stores_not;
      refusing_moves_not = refusing_moves_not;
      acking_naks_not = acking_naks_not;
      acking_stores_not = acking_stores_not;
      first_only_stores_not = first_only_stores_not;
      inventing_counts_not = inventing_counts_not;
      inventing_stores_not = inventing_stores_not;
      broken_silent_not = broken_silent_not;
      broken_stores_not = broken_stores_not;
      any_free_naks_not = any_free_naks_not;
      any_free_order_lost = any_free_order_lost;
    }
