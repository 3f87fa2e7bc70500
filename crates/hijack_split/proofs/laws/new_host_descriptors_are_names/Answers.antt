use Rattle.hijack_split.proofs.GivenLaws.{one_names_host, two_name_hosts}
use Rattle.hijack_split.proofs.laws.new_host_descriptors_are_names.Goals as goal

pub returns : goal.returns
returns c = record { one = one_names_host; two = two_name_hosts }
