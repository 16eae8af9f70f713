pub mod OneMaster
