mod Unbound
