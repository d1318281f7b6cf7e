-- What is claimed of a core, and which claims each fraud breaks.
use Rattle.demands.specs.Behaviour.{Behaviour}
use Rattle.demands.specs.Demand1.{Demand1}
use Rattle.demands.specs.Demand2.{StoreCase, NakCase, NotGoodCase, MarkCase}
use Rattle.demands.specs.History.{DoneByHistory}
use Rattle.demands.specs.Demand3.{Demand3}
use Rattle.demands.specs.Exchange.{Demand3InWords}
use Rattle.demands.specs.Frauds.{always_silent, refuses_all, acks_all, stores_first, invents_done, acks_broken, any_free}

pub record Claims (B : Behaviour) : Type 0 where
  pub demand1 : Demand1 B
  -- of demand 2, what a fraud would break; all of it is in the contracts of the calls
  pub stores : StoreCase B
  pub turns_away : NakCase B
  pub silent_where_broken : NotGoodCase B
  pub by_the_mark : MarkCase B
  pub done_by_history : DoneByHistory B
  pub demand3 : Demand3 B
  pub demand3_in_words : Demand3InWords B

pub record FraudsFail : Type 0 where
  -- "always silent or refuses every call (demand 2's cases, demand 3's progress)"
  pub silent_stores_not : StoreCase always_silent → ⊥
  pub silent_moves_not : Demand3 always_silent → ⊥
  pub refusing_stores_not : StoreCase refuses_all → ⊥
  pub refusing_moves_not : Demand3 refuses_all → ⊥
  -- "says ACK to all (demand 2 on NAK, demand 3's stored list)"
  pub acking_naks_not : NakCase acks_all → ⊥
  pub acking_stores_not : Demand3 acks_all → ⊥
  -- "stores the first payload and afterwards only acknowledges (demand 3's order)"
  pub first_only_stores_not : Demand3 (stores_first 0) → ⊥
  -- "whose done count is invented (demand 2: done is the length of the payloads stored since arming)"
  pub inventing_counts_not : DoneByHistory (invents_done 0) → ⊥
  pub inventing_stores_not : Demand3 (invents_done 0) → ⊥
  -- acknowledges a packet whose check fails
  pub broken_silent_not : NotGoodCase acks_broken → ⊥
  pub broken_stores_not : Demand3 acks_broken → ⊥
  -- chooses any free buffer
  pub any_free_naks_not : NakCase (any_free 0) → ⊥
  pub any_free_order_lost : MarkCase (any_free 0) → ⊥
