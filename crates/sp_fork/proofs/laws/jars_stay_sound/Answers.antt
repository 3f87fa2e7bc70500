use Rattle.sp_fork.proofs.Jars.{empty_is_jar, carried_is_jar}
use Rattle.sp_fork.proofs.laws.jars_stay_sound.Goals as goal

pub returns-clause-begins : goal.returns-clause-begins
returns-clause-begins c = empty_is_jar

pub returns-clause-stays : goal.returns-clause-stays
returns-clause-stays c = carried_is_jar
