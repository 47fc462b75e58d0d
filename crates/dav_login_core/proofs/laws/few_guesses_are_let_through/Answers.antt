use Rattle.dav_login_core.proofs.Rates.{few_hashed, few_of, few_of_strangers}
use Rattle.dav_login_core.proofs.laws.few_guesses_are_let_through.Goals as goal

pub returns-clause-hashed : goal.returns-clause-hashed
returns-clause-hashed c = λ old new events seconds happen soon. few_hashed old new events seconds happen soon

pub returns-clause-own : goal.returns-clause-own
returns-clause-own c = λ old new events label seconds happen soon. few_of old new events seconds happen soon label

pub returns-clause-strangers : goal.returns-clause-strangers
returns-clause-strangers c = λ old new events seconds happen soon. few_of_strangers old new events seconds happen soon
